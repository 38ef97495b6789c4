pub mod Answers
pub mod Search
pub mod SearchSteps
pub mod Trails
