pub mod Lists
pub mod Answers
pub mod One
