-- `Falling` has that slots fall where digits are full, and `Looks` that looking finds the flip which the rank names.
pub mod Falling
pub mod Looks
