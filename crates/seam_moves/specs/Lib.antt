pub mod Moving
pub mod Between
pub mod Inner
