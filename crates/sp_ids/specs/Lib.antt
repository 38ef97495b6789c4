pub mod Entries
pub mod Events
pub mod Exit
pub mod Limits
pub mod Stored
