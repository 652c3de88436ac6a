pub mod Hand
pub mod Asked
