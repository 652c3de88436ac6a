-- `Checks` has what the checks of a stretch and of a pair come to. `Seats` has what a flip does to where a module stands, and
-- `Counts` that the count by seats and counters is the pair count.
pub mod Checks
pub mod Seats
pub mod Counts
