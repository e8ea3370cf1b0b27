pub mod Pairs
pub mod Many
pub mod Decimals
pub mod Names
pub mod Files
pub mod Lengths
pub mod Ascii
pub mod Points
