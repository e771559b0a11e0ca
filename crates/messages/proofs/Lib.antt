-- Why each message is written as the definition says, in reading order.
-- what is put goes behind what was put
pub mod Puts
-- the words of the kinds
pub mod Table
-- the names of an accepted reading are short: a law for callers
pub mod Short
