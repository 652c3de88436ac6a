-- `Turns` has the digits and pointers of the next rank, and `Steps` that one step of the board of a rank leaves the board of the
-- next. `Verdicts` has what the checks of a step come to.
pub mod Turns
pub mod Steps
pub mod Verdicts
