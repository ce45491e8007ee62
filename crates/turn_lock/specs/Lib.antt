pub mod History
pub mod Steps
pub mod Known
pub mod Views
pub mod Idle
pub mod Rule
pub mod Plays
pub mod Turns
