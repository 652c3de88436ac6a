-- `Passings` has the laws of bytes that pass through a stream part by part.
pub mod Passings
