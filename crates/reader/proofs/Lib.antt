-- going on with the reader's step gives the pieces of the text
pub mod GoingOn
