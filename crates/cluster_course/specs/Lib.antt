pub mod Collected
pub mod Halting
pub mod Due
pub mod Course
pub mod Telling
