-- A function's body, and what stands in its cells, in reading order.
-- a body: its items
pub mod Body
-- what blocks are made of
pub mod Shapes
-- the kinds of items by name
pub mod Kinds
-- an item's record, and the argument's run
pub mod Records
-- how many items, arguments and blocks so many tokens make
pub mod Room
-- the whole body
pub mod Answer
-- one turn of its loop: the code's steps, which a reader of document 01 may pass over
pub mod Turns
-- two readings of one body: what is related to what
pub mod Moved
