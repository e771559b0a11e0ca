-- What a recheck takes of the old text, in reading order.
-- the ranges of a header table's cells
pub mod Ranges
-- 42: the header table
pub mod Table
-- names by spelling
pub mod Spelled
-- 40 and 41: the new text held against the replaced function's header
pub mod Kept
-- the old headers in the new text's numbers: the code's step, which a reader of document 01 may pass over
pub mod Brought
