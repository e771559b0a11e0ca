-- The messages of the refusals of parsing and typing.
pub mod Messages
-- for tables of cases: all definitions at once
pub mod Opened
-- what no text shows of the messages, computed
pub mod Cases
