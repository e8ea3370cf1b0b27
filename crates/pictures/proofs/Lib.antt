pub mod Rules
pub mod Limits
pub mod Samples
pub mod Buffers
pub mod TwoBytes
pub mod Smallest
