pub mod ByCosts
pub mod Costing
pub mod Finding
pub mod Tracing
pub mod Inner
