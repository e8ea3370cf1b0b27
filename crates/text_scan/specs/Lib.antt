pub mod Facts
pub mod Inner
