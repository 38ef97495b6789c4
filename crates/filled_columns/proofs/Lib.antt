pub mod Completion
pub mod FilledMatrices
pub mod FullPairings
