-- one operation
pub mod SimTyping
-- blocks, a function, all functions
pub mod SimProgram
-- a function ends behind where it begins
pub mod Onward
-- the records that check writes
pub mod SimRecords
-- all functions are some of them and the rest
pub mod Running
-- several functions
pub mod SimRuns
-- typing all functions is typing each
pub mod Typings
-- a text with one function replaced
pub mod Edited
-- what the functions before change in reading one
pub mod Entry
-- the new function alone decides
pub mod Alone
-- all that check writes of a function
pub mod Written
-- .. for each function of an edited text
pub mod Reading
-- the slices are made of these
pub mod Parts
-- the same tokens are related
pub mod Still
-- no 41: the header is kept
pub mod Keeping
