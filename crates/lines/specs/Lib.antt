pub mod Appending
pub mod Programs
