pub mod Best
pub mod Paths
pub mod Connected
pub mod Seams
pub mod PictureSeams
pub mod Chosen
pub mod Choices
pub mod Sums
