pub mod ArenaLemmas
pub mod ColumnLemmas
pub mod PatternLemmas
pub mod SessionLemmas
pub mod TransposeLemmas
