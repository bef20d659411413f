pub mod Pairs
pub mod Answers
pub mod RoundTrips
pub mod InPlace
pub mod One
