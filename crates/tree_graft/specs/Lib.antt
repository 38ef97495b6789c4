pub mod Counts
pub mod PhaseSearch
pub mod Phases
