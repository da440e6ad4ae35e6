pub mod Read
pub mod Receive
pub mod State
