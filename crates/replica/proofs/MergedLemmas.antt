pub mod Merge
pub mod Holding
pub mod Absorb
