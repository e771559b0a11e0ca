-- Demand 3: one function of an accepted text is replaced. In reading order:
-- all that check writes for a function
pub mod Reading
-- the premises, and what follows
pub mod Demand3
-- the premises by recheck's answer, as premises on the new text
pub mod OfText
-- a function rechecked by its own text
pub mod Itself
-- what tells readings apart, and what doesn't: pairs of texts, one claim
pub mod Pairs
-- what demand 3 leaves open: texts, one claim
pub mod Outside
-- for the proofs: names of two texts that are spelled alike, and how the parts of an edited text are moved
pub mod Spelled
-- the functions of a text and the rows of its header table
pub mod Rows
-- a function's records as they are written for it
pub mod Standing
