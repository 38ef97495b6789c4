pub mod ClassLemmas
pub mod LabelLemmas
pub mod MergeLemmas
