-- numbers, digit by digit
pub mod Digits
-- the values of a run and their repetitions
pub mod Rows
-- runs one behind the other
pub mod Runs
-- a slice against a filled list
pub mod Filled
-- what callers cite
pub mod Handed
