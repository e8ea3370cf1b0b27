pub mod Points
pub mod Cuts
pub mod AnyPicture
