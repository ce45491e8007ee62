pub mod Applying
pub mod Keeping
pub mod Pairs
pub mod Promises
pub mod Readings
pub mod Steps
pub mod Tracks
