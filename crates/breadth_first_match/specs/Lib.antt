pub mod Phases
pub mod Ready
