pub mod Moves
pub mod Spaces
pub mod Inner
