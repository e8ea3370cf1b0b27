pub mod Refresh
pub mod Keeping
pub mod Inner
