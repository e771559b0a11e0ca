-- Why the functions of a text are read and stored as the definition says, in reading order.
-- one turn of each loop over the rows
pub mod Turns
-- what a store leaves of the rows before it, and what is read back of it
pub mod Stores
-- at most 16 formals; a name is entered by the rows as by the headers so far
pub mod Heads
-- later headers see a function's row as its header
pub mod Seen
-- a header takes two tokens or more
pub mod HeaderOn
-- a body and its blocks: what was read is what the definition gives
pub mod Whole
-- a header and a body make the function
pub mod Taken
-- no more function types than functions
pub mod Types
-- the loop over the functions: `Going`
pub mod Program
-- what is stored on cleared slices is the list form
pub mod Laid
-- the rows of all functions, read back: laws for callers
pub mod Standing
-- demand 3: two readings of one function
pub mod SimFunctions
-- lent slices stay the ones that were lent
pub mod Slices
