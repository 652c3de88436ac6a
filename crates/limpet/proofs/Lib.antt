-- `Answers` has the laws of what a call returns and leaves: for the proofs of the calls, that the packing loses nothing, and
-- that each promise leaves one outcome.
pub mod Answers
