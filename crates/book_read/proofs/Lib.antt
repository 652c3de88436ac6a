-- `Lined` has the laws of a book's lines, put one by one.
pub mod Lined
