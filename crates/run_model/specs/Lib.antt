pub mod Round
pub mod Doing
pub mod Sound
pub mod Planned
pub mod Follows
pub mod Schedule
pub mod Turns
