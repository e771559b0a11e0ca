-- Why each piece is scanned as the definition says, in reading order.
-- the tests that lead to a return, and a scan's turn

pub mod Picked
-- a digit is one of the bytes 48 to 57
pub mod Digits
-- a number counted no higher than 2147483649 gives the same answers
pub mod Capping
-- bytes compared, from the back
pub mod Compare
-- the 25 words by their lengths and first letters
pub mod Words
-- every piece but the end takes a byte or more and stays in the text
pub mod Progress
-- a value comes back from its kind and what it carries
pub mod Values
