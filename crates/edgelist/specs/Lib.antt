pub mod Guessing
pub mod Records
pub mod Reading
pub mod Pieces
pub mod Given
pub mod Cutting
pub mod Rounds
