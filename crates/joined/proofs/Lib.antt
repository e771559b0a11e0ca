-- One piece: moved; before other bytes. -----------------------------------------------------------------------------
-- behind other bytes a text reads as it does alone, moved
pub mod Shift
-- what stands behind a piece has no part in it
pub mod Front
-- Pieces one after the other: with no fuel; cut and joined. ---------------------------------------------------------
-- runs of pieces: joined, split, moved
pub mod Runs
-- a text is cut where a piece ends
pub mod Cut
-- Names: numbered, and by spelling in two tables. -------------------------------------------------------------------
-- each token stands for its item by the last table
pub mod Numbering
-- a renaming by spelling keeps names apart
pub mod Names
-- Tokens of a part against the part alone. --------------------------------------------------------------------------
-- items read in two texts: the same tokens, moved and renamed
pub mod Tokens
-- .. in an accepted text that is joined of parts
pub mod Parts
-- where a token stands, and which byte it is
pub mod Places
-- a global stands at an `@`, a closing brace at a `}`
pub mod Bytes
-- One function replaced. --------------------------------------------------------------------------------------------
-- the edited text's pieces and tokens
pub mod Edits
-- the edited text lexes, inside the limits
pub mod Limits
-- the same by premises on tokens alone
pub mod Replaced
-- A function of a text, by itself. ----------------------------------------------------------------------------------
-- no more tokens and names than there is room for
pub mod Room
-- it lexes alone, and its tokens are those that the text has there
pub mod Within
