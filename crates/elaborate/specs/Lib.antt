-- the types that typing writes
pub mod Types
