pub mod Runs
pub mod Glides
pub mod Splits
pub mod Places
pub mod One
