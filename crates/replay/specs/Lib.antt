-- What a file of fixed cases holds (host/tests/support/case_file.rs, "The file"), in reading order.
-- numbers, and the comments between them
pub mod Numbers
-- lists of numbers and of bytes
pub mod Lists
-- an answer's numbers and slices, held to the file
pub mod Held
-- lists of cases, and what the file must hold at its end
pub mod Cases
