pub mod Close
pub mod Advance
