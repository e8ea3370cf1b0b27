pub mod Columns
pub mod Carving
pub mod Seams
