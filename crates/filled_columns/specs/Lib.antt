pub mod Completed
pub mod Filled
