pub mod Forms
pub mod Sizes
pub mod Spelling
pub mod Gained
