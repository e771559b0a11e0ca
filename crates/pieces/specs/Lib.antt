-- What the pieces of a text are, in reading order.
-- the classes of bytes
pub mod Classes
-- token values, their kinds, the words and the one-byte tokens
pub mod Tokens
-- the kinds of tokens by name
pub mod Kinds
-- a refusal's number, line, place and text
pub mod Refusals
-- one piece of a text, and all of them
pub mod Pieces
-- what the code keeps of a number too large
pub mod Capped
