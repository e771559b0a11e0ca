-- What the C functions answer, on bytes.
pub mod Bytes
-- the check's, on bytes
pub mod CheckBytes
