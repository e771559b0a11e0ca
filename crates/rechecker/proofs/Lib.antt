-- how a recheck ends
pub mod Ends
