pub mod Listing
pub mod Walk
pub mod Worked
