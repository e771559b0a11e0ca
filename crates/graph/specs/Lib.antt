-- What the block order means, in reading order.
-- document 01's sentence
pub mod Walk
-- a block's record, and a function's graph, from block records
pub mod Records
-- the worklist's answers
pub mod Worklist
-- what the laws speak of
pub mod Reach
-- graphs with their orders: one table, one claim
pub mod Cases
-- the walk by a stack: contracts within the crate
pub mod Frames
