pub mod ClosedBoards
pub mod OpeningLemmas
pub mod RoundLemmas
pub mod WalkLemmas
pub mod WorkerLemmas
