pub mod Axes
pub mod Marking
pub mod Inner
