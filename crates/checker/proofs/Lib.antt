-- what `read` leaves of a text
pub mod Lexed
-- how the check of a text ends
pub mod Ends
-- a table that `check` wrote is inside the ranges that recheck asks for
pub mod Header
-- every number is one of document 01's for check: those of parsing
pub mod ParsedNumbers
-- .. those of typing
pub mod TypedNumbers
-- .. the whole
pub mod Numbers
