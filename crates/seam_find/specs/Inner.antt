pub mod Sums
pub mod Down
pub mod Bottom
