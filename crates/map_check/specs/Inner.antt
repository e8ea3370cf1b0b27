pub mod Numbers
pub mod Judging
pub mod Columns
