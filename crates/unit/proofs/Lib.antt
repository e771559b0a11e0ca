-- one turn of the loop over the functions
pub mod Turns
-- typing on cells is typing the functions
pub mod Typed
-- from the slices that parsing leaves to those of the whole
pub mod Building
