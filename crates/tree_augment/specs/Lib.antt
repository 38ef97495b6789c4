pub mod Augmented
pub mod ForestBoards
pub mod Rounds
