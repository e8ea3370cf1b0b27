pub mod Onward
pub mod MapRows
pub mod PictureRows
pub mod Judged
pub mod Fits
pub mod Answers
