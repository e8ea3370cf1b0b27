pub mod Each
pub mod Table
pub mod Rows
pub mod Exchange
pub mod Cut
