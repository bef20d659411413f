pub mod CallAnswers
pub mod Recorded
pub mod One
