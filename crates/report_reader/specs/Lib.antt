pub mod ComponentArrays
pub mod Readable
pub mod ReportGrammar
pub mod ReportRead
