pub mod FlipContestLemmas
pub mod Swapped
