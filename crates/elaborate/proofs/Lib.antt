-- one turn of each loop
pub mod Turns
-- writing the types into cells is the list form
pub mod Lists
-- the callees by name, from the rows: a law for callers
pub mod Rows
