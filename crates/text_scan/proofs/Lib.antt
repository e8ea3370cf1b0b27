pub mod Counting
pub mod WholeText
pub mod Numbers
