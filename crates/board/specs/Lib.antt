pub mod Board
pub mod Read
pub mod Asked
