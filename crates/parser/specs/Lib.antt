-- What the parser takes a token for, in reading order.
-- refusals, and what follows a step
pub mod Step
-- the grammar of one operation
pub mod Grammar
-- the cells of types by name
pub mod Types
-- the formals of a header, the arguments of a call
pub mod Runs
-- a label in a body
pub mod Labels
-- two readings of one function: what is related to what
pub mod Moved
