pub mod Bytes
pub mod Checks
pub mod Slices
pub mod Formats
pub mod Books
