pub mod Methods
pub mod Around
pub mod Energy
pub mod Bounds
pub mod Inner
pub mod Pixels
