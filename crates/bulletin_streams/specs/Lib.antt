pub mod Keeping
pub mod Standing
pub mod StreamState
pub mod Spelling
