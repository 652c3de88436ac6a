-- `Renaming` has the laws of one cell, `Ranks` that rank and unrank are inverses, `Digits` the laws of the digits and of the
-- flip that they name, and `Steps` that this flip leads to the next rank. `Recursion` has what one call of the code on one slot
-- fewer comes to, and `Checks` the laws of the check of a rank.
pub mod Renaming
pub mod Ranks
pub mod Digits
pub mod Steps
pub mod Recursion
pub mod Checks
