-- `Entries` has that the entry made of a book and a number is settled by them.
pub mod Entries
