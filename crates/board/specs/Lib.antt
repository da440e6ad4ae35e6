pub mod Noted
pub mod Book
pub mod View
pub mod Rule
pub mod Turn
pub mod Seats
pub mod Inside
