-- `Refusals` has the laws of verdicts and `Outcomes` those of calls that write. `Grid` turns a test that antt computes at each number
-- below a bound into a law, `Weights` has the laws of T and what is known of sizes that are not refused, and `Made` that the sizes
-- made of n and k are settled by them.
pub mod Grid
pub mod Refusals
pub mod Outcomes
pub mod Weights
pub mod Made
