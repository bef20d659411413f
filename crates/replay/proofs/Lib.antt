pub mod Lines
pub mod Totals
pub mod Words
pub mod Tallies
pub mod Passing
pub mod Wholes
pub mod One
