pub mod Cells
pub mod Retargeting
pub mod Inner
