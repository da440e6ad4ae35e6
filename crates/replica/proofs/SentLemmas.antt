pub mod Changed
pub mod Sent
pub mod Told
pub mod Telling
