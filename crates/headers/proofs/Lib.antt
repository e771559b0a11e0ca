-- one turn of each loop
pub mod Turns
-- the tests of a header table are its ranges
pub mod Ranges
-- the new text's names, found by spelling
pub mod Named
-- the old headers in the new text's numbers: what is found among them, and where the replaced function's row stands
pub mod Brought
-- tables that answer alike
pub mod Alike
-- a header held against the replaced one's row
pub mod Against
