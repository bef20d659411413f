pub mod LentLetters
pub mod InPlace
