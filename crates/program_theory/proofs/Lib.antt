pub mod Lengths
pub mod Header
pub mod Smallest
pub mod Files
pub mod Carved
pub mod Fitted
