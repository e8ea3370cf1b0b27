pub mod Exchanging
pub mod Places
pub mod Served
pub mod Smallest
