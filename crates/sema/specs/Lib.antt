-- Typing, in reading order.
-- the table of names, and what each step does to it
pub mod Symbols
-- one operation
pub mod Typing
-- the items that cells hold: for the code and its proofs, a reader of document 01 may pass over it
pub mod Items
-- the functions by name: as the cells hold them, likewise
pub mod Globals
-- a block, a function; at the end the same by the cells
pub mod Blocks
-- all functions, as they were parsed
pub mod Program
-- what is looked up at each visit, and the types found there
pub mod Visits
-- for tables of cases: all definitions at once
pub mod Opened
