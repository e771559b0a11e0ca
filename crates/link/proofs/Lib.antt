-- Why blocks and edges are those of the definition, in reading order.
-- records read one after the other
pub mod Scanning
-- a label's number tells its block
pub mod Places
-- the first block of what is left
pub mod Closing
-- the items cut into blocks, one block a turn
pub mod Cutting
-- the edges that enter a block, source by source
pub mod Entering
-- at most two predecessors for each block
pub mod Edges
-- each record, stored twice, is that of `block_cells`
pub mod Whole
-- which parts are in which block
pub mod Partition
-- what blocks and edges are like: laws for callers
pub mod Laws
-- the whole answer
pub mod Linking
-- demand 3: two readings of one function's blocks
pub mod SimBlocks
