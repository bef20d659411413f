pub mod Entries
pub mod One
