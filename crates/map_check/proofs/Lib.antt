pub mod Counting
pub mod Columns
pub mod Steps
pub mod Answers
pub mod Smallest
pub mod Pairs
pub mod Same
pub mod Chunks
