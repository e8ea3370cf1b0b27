pub mod Hosts
pub mod Seams
pub mod Objects
pub mod Retargets
pub mod Files
