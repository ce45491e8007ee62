pub mod Outcomes
pub mod Stops
pub mod CollectedLemmas
pub mod Courses
pub mod LastVerdict
pub mod TellingLemmas
