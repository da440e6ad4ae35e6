pub mod Shows
pub mod Turns
pub mod Runs
pub mod Script
pub mod Answer
pub mod Tell
pub mod Replay
