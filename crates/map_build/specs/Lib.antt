pub mod Building
pub mod Inner
