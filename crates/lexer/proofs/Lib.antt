-- Why a reading is sound and its cells hold it, in reading order.
-- lists by their elements: `same_bytes`, `index_of`
pub mod Same
-- every accepted reading is sound, every refusal stands in the text: `read_sound`, `refused_sound`, `never_cut`
pub mod Sound
-- which numbers a reading has
pub mod Numbers
-- the tokens that cells hold
pub mod Records
-- the names that cells hold
pub mod Parts
-- names whose prints differ differ; what is kept of names
pub mod Prints
-- an answer by cases
pub mod Cases
-- decoding undoes the laying out, whatever zeros follow
pub mod Cells
-- why the reader's loop is right
pub mod Turns
-- from an answer to the reading behind it
pub mod Accepted
-- the promise of `read` as one equation and by parts, and what it shuts out
pub mod Promise
