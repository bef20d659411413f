pub mod Rooms
pub mod Within
pub mod One
