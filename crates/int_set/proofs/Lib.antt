pub mod Bits
pub mod InsertLemmas
pub mod Least
pub mod Members
pub mod RemoveLemmas
pub mod Views
