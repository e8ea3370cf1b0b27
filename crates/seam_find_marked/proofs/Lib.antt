pub mod Weighed
pub mod Marked
pub mod Smallest
pub mod Laws
pub mod ByWeights
