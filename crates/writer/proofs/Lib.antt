-- `Checks` has what the check of four lists and a buffer says, `Pieces` the laws of a book written by its parts, and `Written` what
-- the reader makes of a book that was written, and the writer of a book that was read.
pub mod Checks
pub mod Pieces
pub mod Written
