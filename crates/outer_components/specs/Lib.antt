pub mod Classes
pub mod Contacts
pub mod Labels
pub mod Numbers
