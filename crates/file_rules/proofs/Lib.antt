pub mod Ranges
pub mod Smallest
