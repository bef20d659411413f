pub mod Puts
pub mod Tones
pub mod Fills
pub mod Texts
pub mod Answers
pub mod One
