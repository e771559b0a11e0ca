-- The functions of a text, in reading order.
-- the functions so far: names, function types and their numbers
pub mod Known
-- a header, a function, all functions
pub mod Functions
-- the header table: where its cells stand
pub mod Columns
-- .. and what they hold
pub mod Rows
-- a header's answer
pub mod Heads
-- the whole answer
pub mod Answer
-- what the slices hold of all functions, and their limits
pub mod Laid
-- two readings of one function: what is related to what
pub mod Moved
-- for tables of cases: all definitions at once
pub mod Opened
