mod BatchLemmas
mod EngineNames
pub mod NumberLemmas
pub mod OptionLemmas
mod ReadAlike
pub mod TakenLemmas
