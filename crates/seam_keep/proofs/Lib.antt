pub mod Refresh
pub mod Beside
pub mod Fronts
pub mod Lined
mod Most
mod Placed
mod Kept
mod Costed
pub mod Anew
