-- What the C functions answer, on bytes. Those of read and check are in crates/exports.
-- the recheck's, with a header table as bytes
pub mod RecheckBytes
