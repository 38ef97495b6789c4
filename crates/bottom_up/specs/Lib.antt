pub mod Candidates
pub mod BottomUpSearch
