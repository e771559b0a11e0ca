-- Why a body is read and stored as the definition says, in reading order.
-- how items and arguments lie in their cells
pub mod Lay
-- what was stored is decoded: laws for callers
pub mod Decode
-- what one item more adds to the cells, the counts and the blocks
pub mod Cells
-- every step takes a token and stays before the end token
pub mod Progress
-- from what the calls gave to an item
pub mod Items
-- one turn of the loop, by the token at hand
pub mod Turning
-- the loop: what is left to read gives the whole body
pub mod Reading
-- what stands behind what in a body
pub mod BodyLaws
-- demand 3: two readings of one body
pub mod SimBody
-- .. once it is closed: its labels, its added `ret`s, its shapes
pub mod SimItems
