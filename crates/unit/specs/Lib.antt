-- the functions of a text, parsed and typed: the definition and what the slices hold
pub mod Outcome
-- the same on the rows of the header table: the code's steps, which a reader of document 01 may pass over
pub mod Rows
