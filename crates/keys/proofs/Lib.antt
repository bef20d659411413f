pub mod Bools
pub mod Roles
pub mod One
