-- the new function, parsed and typed
pub mod Building
