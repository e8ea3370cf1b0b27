pub mod Seams
pub mod Cells
pub mod Table
pub mod Retargets
