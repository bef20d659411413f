pub mod Turns
pub mod Ends
pub mod Waits
pub mod Finds
pub mod Within
pub mod One
