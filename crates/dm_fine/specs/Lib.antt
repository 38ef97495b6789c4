pub mod BlockOrder
pub mod Condensation
pub mod Groups
pub mod Layout
pub mod SquareBlocks
pub mod Waiting
pub mod Waits
