pub mod Contents
pub mod Rules
pub mod Shows
pub mod Demands
pub mod Forward
