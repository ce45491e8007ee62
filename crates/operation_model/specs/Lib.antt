pub mod Deeds
pub mod Turns
pub mod Openings
pub mod Courses
pub mod Hands
pub mod Fits
pub mod Answers
pub mod Kept
