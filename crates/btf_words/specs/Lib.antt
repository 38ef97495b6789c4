pub mod BatchWords
pub mod Choices
pub mod Table
pub mod UsageLine
pub mod Words
