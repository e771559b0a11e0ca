-- A function's blocks and edges, and what stands in their cells, in reading order.
-- the blocks that a body's items make
pub mod Blocks
-- the blocks in order: empty ones, labels resolved, edges, dead marks
pub mod Edges
-- a label's block, found by the label's number among a function's labels: a step of the code, which a reader of
-- document 01 may pass over
pub mod Table
-- block records and predecessors, and the whole answer
pub mod Cells
-- what each function does: the code's steps, which a reader of document 01 may pass over
pub mod Steps
-- two readings of one function's blocks: what is related to what
pub mod Moved
