pub mod Turns
pub mod Left
pub mod Rooms
pub mod Choices
pub mod Smallest
