pub mod CutLemmas
pub mod GroupLemmas
