-- `Starts` has that a start is settled by n, k and the rank.
pub mod Starts
