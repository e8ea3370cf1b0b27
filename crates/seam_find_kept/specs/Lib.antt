pub mod Finding
pub mod Inner
