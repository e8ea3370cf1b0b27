pub mod Kept
pub mod Rows
pub mod Down
pub mod Trace
