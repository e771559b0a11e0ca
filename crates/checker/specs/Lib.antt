-- What a text checks as, in reading order.
-- the whole answer, of the text alone
pub mod Check
-- the gate and the slices' lengths
pub mod Promise
-- document 01's numbers
pub mod Numbers
