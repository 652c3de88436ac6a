pub mod Prints
pub mod Streams
