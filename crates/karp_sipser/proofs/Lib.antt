pub mod Choices
pub mod Free
pub mod LeftOut
pub mod LongestMatchings
pub mod Prefixes
pub mod Sums
pub mod TakenPairs
