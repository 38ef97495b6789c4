pub mod Answers
pub mod Found
pub mod Groups
pub mod Numbers
pub mod Part
pub mod Renumbering
pub mod Stacks
pub mod Steps
