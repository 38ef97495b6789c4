pub mod Agreement
pub mod Candidates
pub mod Each
pub mod Growth
pub mod Level
pub mod LevelWork
pub mod Progress
pub mod Shares
