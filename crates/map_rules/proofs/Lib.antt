pub mod Rooms
pub mod Smallest
