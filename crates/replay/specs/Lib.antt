pub mod Replays
pub mod Passes
