pub mod Fences
pub mod Weights
