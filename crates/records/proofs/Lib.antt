pub mod Conditions
pub mod One
pub mod PlacesAsked
