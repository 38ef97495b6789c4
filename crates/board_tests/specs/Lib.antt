pub mod ClaimContest
pub mod FlipContest
