pub mod Tasks
pub mod RunReports
pub mod Completeness
