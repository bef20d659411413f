pub mod Fronts
pub mod Stands
pub mod Reading
pub mod Writing
pub mod BothWays
pub mod One
