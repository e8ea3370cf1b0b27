pub mod Turns
pub mod NumbersPut
pub mod Steps
pub mod Carved
pub mod Mapped
