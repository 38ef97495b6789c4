pub mod GatheredLemmas
pub mod LedLemmas
pub mod SplitLemmas
