pub mod Answers
pub mod Axes
pub mod Cuts
pub mod Counts
pub mod Endings
