-- the thin reader: its step, and going on with it
pub mod Reader
