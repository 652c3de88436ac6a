pub mod Stretch
pub mod Pair
pub mod Asked
