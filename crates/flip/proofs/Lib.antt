-- `Flips` has the laws of a flip, and of its check.
pub mod Flips
