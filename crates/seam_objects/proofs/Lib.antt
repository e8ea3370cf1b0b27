pub mod Twos
pub mod Shapes
pub mod Endings
pub mod Removals
pub mod Front
pub mod Standing
pub mod Seams
pub mod Smallest
