mod AugmentLemmas
mod CountLemmas
mod FrontierLemmas
mod LevelLemmas
mod PhaseLemmas
mod SearchLemmas
