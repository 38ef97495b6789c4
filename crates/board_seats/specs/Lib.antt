pub mod Seat
pub mod View
pub mod WordCodes
