pub mod Bytes
pub mod Device
pub mod InMemory
pub mod Kept
