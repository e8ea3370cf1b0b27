pub mod Showing
pub mod Inner
