pub mod Answers
pub mod Heavier
