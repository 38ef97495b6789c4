pub mod GivenLists
pub mod PatternLists
