-- one function and nothing behind it
pub mod Parsed
-- a function that keeps its header has the replaced one's name and function type
pub mod Keeping
-- the new function's row among the old headers
pub mod Placing
-- every number is one of document 01's for recheck
pub mod Numbers
-- equal answers; the table of an accepted check is never refused
pub mod Laws
