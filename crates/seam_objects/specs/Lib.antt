pub mod Objects
pub mod Endings
pub mod Removing
pub mod Inner
