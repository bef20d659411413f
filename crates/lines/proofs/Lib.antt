pub mod Columns
pub mod KeyPlaces
pub mod Words
pub mod Spelled
pub mod Starts
pub mod Fits
pub mod One
