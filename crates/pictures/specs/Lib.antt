pub mod Refusals
pub mod Limits
pub mod Pictures
pub mod Numbers
