mod CandidateLemmas
mod LevelLemmas
mod SearchLemmas
