pub mod Flat
pub mod Numbered
pub mod SeatNumbers
pub mod States
pub mod WordCodes
