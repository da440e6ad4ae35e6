pub mod Writing
pub mod Spooled
pub mod Parts
pub mod Laws
pub mod Texts
pub mod Reading
pub mod Told
pub mod Spelling
