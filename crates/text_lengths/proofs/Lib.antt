pub mod Sinks
pub mod Rooms
pub mod Numbers
pub mod Counted
