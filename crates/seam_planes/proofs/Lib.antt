pub mod Fronts
pub mod Lent
pub mod Closing
pub mod Cells
pub mod Elements
pub mod Numbers
pub mod Packed
