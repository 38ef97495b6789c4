pub mod Reasons
pub mod ReportParts
pub mod Verdicts
