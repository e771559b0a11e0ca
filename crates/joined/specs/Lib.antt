-- What it means that a text is joined of parts, in reading order.
-- pieces moved to another place and line
pub mod Moves
-- the names and tokens between two places of a text
pub mod Runs
-- the tokens that stand for them, and names in two tables
pub mod Names
-- one function replaced: the premises of demand 3 that are about lexing
pub mod Edits
-- what may still refuse the edited text
pub mod Limits
-- which tokens are the same in the old, the new and the edited text
pub mod Readings
