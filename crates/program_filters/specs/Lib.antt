pub mod Inner
pub mod Running
