pub mod Answers
pub mod Numbers
pub mod Lines
pub mod Inner
