pub mod Halting
pub mod Steps
