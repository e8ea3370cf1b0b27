pub mod Named
pub mod Answers
pub mod Objects
pub mod Files
