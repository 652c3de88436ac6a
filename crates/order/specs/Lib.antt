pub mod Rank
pub mod Digits
pub mod Asked
pub mod Check
