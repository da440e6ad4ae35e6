pub mod Ready
pub mod Parts
pub mod Rows
pub mod Laws
pub mod Written
