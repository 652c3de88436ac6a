-- `Runs` has the laws of full digits and of their runs, and `Writing` that what is written is the board of a rank. `Readings` has
-- that what is read of a board is its rank, and that no two ranks have one board. `Checks` has what a check says, and `Boards` that the
-- making of a board that is lent leaves one answer.
pub mod Runs
pub mod Checks
pub mod Boards
pub mod Writing
pub mod Readings
