pub mod Filed
pub mod Unknown
