pub mod Gathered
pub mod Searches
pub mod Split
