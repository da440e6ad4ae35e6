pub mod Hear
pub mod Hearing
pub mod Accumulator
pub mod Spare
