pub mod Lines
pub mod Building
