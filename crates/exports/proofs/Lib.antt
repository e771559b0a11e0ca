-- Why the bytes are those of the definitions, in reading order.
-- cells as bytes
pub mod Cells
-- the cells of a check as bytes, and what its promise shuts out
pub mod Checks
