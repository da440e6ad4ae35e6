pub mod Blocks
pub mod Laws
pub mod Reading
pub mod Spooled
pub mod Stored
pub mod Writing
