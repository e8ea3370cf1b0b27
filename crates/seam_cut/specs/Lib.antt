pub mod Axes
pub mod Cutting
pub mod Inner
