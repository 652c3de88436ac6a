-- `Lists` has the laws of lists by their elements, `Listing` that the published listing is the order of the ranks, and `Walks`
-- that looking, the counters and the number are one walk, which passes through each arrangement once and closes the round.
pub mod Lists
pub mod Listing
pub mod Walks
pub mod Worked
