pub mod Buffers
pub mod Cuts
pub mod Marked
pub mod Marks
pub mod Smallest
pub mod Standing
