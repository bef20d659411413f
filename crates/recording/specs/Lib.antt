pub mod Recordings
pub mod Drills
