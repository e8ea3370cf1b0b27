pub mod Outputs
pub mod Headers
pub mod Inner
