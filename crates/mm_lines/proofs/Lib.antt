pub mod LineSteps
pub mod Lookups
pub mod Numbers
pub mod Words
