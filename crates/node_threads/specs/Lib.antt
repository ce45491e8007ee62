pub mod Questions
pub mod Pumping
pub mod Collecting
pub mod Fetching
