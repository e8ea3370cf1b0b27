pub mod Reading
pub mod Inner
