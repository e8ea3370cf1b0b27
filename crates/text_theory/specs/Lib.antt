pub mod Readers
pub mod Decimal
pub mod Words
pub mod Files
pub mod Lengths
pub mod Example
pub mod Readings
