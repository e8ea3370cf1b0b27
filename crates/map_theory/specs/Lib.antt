pub mod Maps
pub mod Widths
pub mod Judged
pub mod Bounds
