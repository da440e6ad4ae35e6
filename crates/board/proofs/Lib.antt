pub mod NameLemmas
pub mod BookLemmas
pub mod ViewLemmas
pub mod MoveLemmas
pub mod SeatLemmas
pub mod CallLemmas
pub mod GivenLemmas
pub mod Crossing
