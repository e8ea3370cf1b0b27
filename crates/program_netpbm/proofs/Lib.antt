pub mod Headers
pub mod Outputs
pub mod Numbers
