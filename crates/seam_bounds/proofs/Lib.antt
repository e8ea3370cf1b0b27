pub mod Moving
pub mod Spaces
pub mod Smallest
