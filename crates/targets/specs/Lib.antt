pub mod Places
pub mod Aims
