pub mod TopDownSearch
