pub mod Shows
pub mod Rooms
pub mod PressesAt
pub mod One
