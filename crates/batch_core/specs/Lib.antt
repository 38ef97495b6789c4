pub mod BatchRefusals
pub mod BatchRuns
pub mod BatchText
pub mod Shares
