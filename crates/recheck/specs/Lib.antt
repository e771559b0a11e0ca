-- What rechecking a function means, in reading order. The header table and its names are those of crates/headers; the
-- parts of an answer are those of crates/checker.
-- the whole answer
pub mod Recheck
-- the gate, the padding, and the promise
pub mod Promise
-- document 01's numbers
pub mod Numbers
-- document 01's cases, of check and of recheck: one table, one claim
pub mod Cases
-- the new function alone: what the inner functions say
pub mod Alone
