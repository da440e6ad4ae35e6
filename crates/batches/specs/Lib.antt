pub mod Kept
pub mod Held
pub mod Reading
pub mod Laws
