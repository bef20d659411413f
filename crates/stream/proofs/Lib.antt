pub mod Bytes
pub mod Turns
pub mod FirstBytes
pub mod Runs
pub mod Rooms
pub mod One
