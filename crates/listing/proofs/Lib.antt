-- `Lines` has that a line depends on the slots of a walk alone. `Walks` has that a walk in the middle of a listing is not refused.
pub mod Lines
pub mod Walks
