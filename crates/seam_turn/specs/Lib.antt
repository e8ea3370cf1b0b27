pub mod Axes
pub mod Turning
pub mod Inner
