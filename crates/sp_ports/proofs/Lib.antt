pub mod InTurn
pub mod Listed
