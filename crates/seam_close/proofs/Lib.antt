pub mod Closing
pub mod Served
pub mod Smallest
pub mod Answered
