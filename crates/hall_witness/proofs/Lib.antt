pub mod MarkLemmas
pub mod PathLemmas
pub mod Phases
pub mod ScanLemmas
pub mod SearchLemmas
pub mod StepLemmas
