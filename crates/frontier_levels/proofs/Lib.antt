mod EventLemmas
mod SearchLemmas
mod LevelLemmas
