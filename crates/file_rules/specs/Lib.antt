pub mod Answers
pub mod Spaces
pub mod Inner
