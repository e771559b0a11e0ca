-- The laws, in reading order.
-- one step of a walk, and induction over a walk
pub mod Steps
-- why the walk ends: the blocks left and those still to be met are always as many
pub mod Counts
-- `depth_enough`
pub mod Depth
-- `order_permutation`, `order_below`, `block_0_first`
pub mod Once
-- `met_iff_path`
pub mod Paths
-- `all-met-reverse_postorder`
pub mod Post
-- `order_depends_below`
pub mod Below
-- what callers cite
pub mod Callers
-- why the code is right: a stack in the place of recursion
pub mod Stack
-- .. one turn of its loop
pub mod Turns
-- .. the whole walk, from its start
pub mod Begin
-- .. the order is put in place
pub mod Placing
-- .. the rows hold the records' successors
pub mod Rows
