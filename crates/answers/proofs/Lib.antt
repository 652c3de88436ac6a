-- `Calls` has the calls from C, and `Values` those from Rattle.
pub mod Calls
pub mod Values
