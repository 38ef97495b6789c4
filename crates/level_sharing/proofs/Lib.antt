pub mod CandidateLemmas
pub mod EachLemmas
pub mod GrownForests
pub mod LevelLemmas
pub mod LevelWorkLemmas
pub mod NewWords
pub mod ProgressLemmas
pub mod ShareLemmas
