-- Where a function stands. ------------------------------------------------------------------------------------------
-- a function begins with a global and ends with a closing brace
pub mod Closing
-- .. and so among the tokens of an accepted text
pub mod Placed
-- lexing's premises, from where the function stands
pub mod Replacing
-- an accepted text
pub mod Accepted
-- a function's name as a token
pub mod Names
-- the header table of an accepted text
pub mod Rows
-- where function k stands: its bytes, its line, its row
pub mod Located
-- Answers. ----------------------------------------------------------------------------------------------------------
-- what check and recheck answer once their texts are lexed
pub mod Answers
-- what parsing and typing ask of an edited text, from lexing
pub mod Lexing
-- what recheck says of the new function alone, the whole text is
pub mod Decides
-- the premises of demand 3, taken apart
pub mod Cutting
-- the edited text against recheck's answer
pub mod Fresh
-- Readings. ---------------------------------------------------------------------------------------------------------
-- what is cut out of the slices is what was written
pub mod Cells
-- records alike
pub mod Alike
-- tokens alike
pub mod TokensAlike
-- the same reading
pub mod Same
-- where nothing is moved
pub mod Unmoved
-- a function of an accepted text, by what it is related to
pub mod Sides
-- lists with one element exchanged
pub mod Others
-- on acceptance: the new function, and all others
pub mod Read
-- The theorems. -----------------------------------------------------------------------------------------------------
-- DEMAND 3
pub mod Demand3
-- what is refused with a number below 40
pub mod Low
-- one function with the old header is answered with neither 40 nor 41
pub mod OfText
-- a function of an accepted text, read alone
pub mod ReadAlone
-- its own text lexes, and is one function
pub mod OwnTokens
-- .. and keeps its header
pub mod OwnKept
-- THE COROLLARY: a function rechecked by its own text
pub mod Itself
