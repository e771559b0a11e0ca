-- What reading a text means, in reading order. The pieces of a text are those of the crate pieces.
-- records and slices by their cells
pub mod Sizes
-- names numbered, limits applied
pub mod Numbered
-- one turn of the reader
pub mod Steps
-- the whole answer
pub mod Read
-- which numbers it has
pub mod Numbers
-- what callers rely on of an accepted reading
pub mod Sound
-- what the cells hold, for callers
pub mod Decoded
-- for tables of cases: all definitions at once
pub mod Opened
