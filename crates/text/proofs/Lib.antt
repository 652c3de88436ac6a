-- `Lines` has the laws of texts written one behind the other and the lengths of the lines. `Examples` has 01's example.
pub mod Lines
pub mod Examples
