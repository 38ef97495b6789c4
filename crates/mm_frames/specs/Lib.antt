pub mod Batches
pub mod Edits
pub mod Frames
pub mod Judged
pub mod Readings
pub mod Stages
