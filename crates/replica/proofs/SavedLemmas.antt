pub mod Saved
pub mod Rebuilt
pub mod Fits
pub mod Keepable
