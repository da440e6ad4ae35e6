pub mod Kept
pub mod Take
pub mod Rise
