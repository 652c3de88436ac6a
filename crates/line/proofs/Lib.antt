-- `Decimals` has the laws of a number in decimal, `Readings` that what is read of an input is right, and the only answer, and `Ends`
-- how long a line is.
pub mod Decimals
pub mod Readings
pub mod Ends
