pub mod Items
pub mod PixelRows
pub mod Written
pub mod Numbers
