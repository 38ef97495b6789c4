pub mod Arena
pub mod Columns
pub mod Sessions
pub mod Spans
