pub mod Bits
pub mod Index
pub mod Laws
pub mod Lists
pub mod Places
