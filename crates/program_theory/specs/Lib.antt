pub mod Netpbm
pub mod Programs
