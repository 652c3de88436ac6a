-- `Takings` has the laws of lines taken into four lists, one by one, `Written` those of what is printed of the lists, and `Answered` that
-- any two such lists come to one answer.
pub mod Answered
pub mod Takings
pub mod Written
