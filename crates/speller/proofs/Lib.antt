pub mod Tones
pub mod Faults
pub mod Turns
pub mod KeyLists
pub mod Answers
pub mod One
