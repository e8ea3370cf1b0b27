pub mod Marks
pub mod Prints
pub mod Outs
