pub mod Turned
pub mod Columns
pub mod Served
pub mod Smallest
pub mod Answered
