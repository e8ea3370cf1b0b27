pub mod Pixels
pub mod Rows
