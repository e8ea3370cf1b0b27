pub mod Planes
pub mod Inner
