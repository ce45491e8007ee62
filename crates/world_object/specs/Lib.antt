pub mod State
pub mod Standing
pub mod Answering
pub mod Searching
pub mod Turns
pub mod Locked
