pub mod Refusing
pub mod Deciding
