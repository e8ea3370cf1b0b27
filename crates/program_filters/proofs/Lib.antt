pub mod FileAnswers
pub mod Fitted
pub mod PictureAnswers
