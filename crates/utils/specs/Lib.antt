-- What the message form says, in reading order.
-- bytes, choices and padded buffers
pub mod Bytes
-- the form itself
pub mod Message
-- document 01's limits by name
pub mod Limits
