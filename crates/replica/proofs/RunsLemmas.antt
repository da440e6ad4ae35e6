pub mod Call
pub mod Run
pub mod Same
