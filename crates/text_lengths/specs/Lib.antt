pub mod Sinks
pub mod Rooms
pub mod Inner
