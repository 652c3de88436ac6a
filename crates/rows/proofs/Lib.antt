-- `Cases` has proofs by cases on the order of two numbers, `Rows` the laws of lists by their slots, `Searches` those of the lowest
-- slot at which a test holds, and `Puts` those of texts written into a buffer. Every floor cites them.
pub mod Cases
pub mod Rows
pub mod Searches
pub mod Puts
