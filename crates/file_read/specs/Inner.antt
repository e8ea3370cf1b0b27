pub mod Opening
pub mod Lines
pub mod Checking
pub mod Widths
