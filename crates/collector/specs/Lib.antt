pub mod Refusals
pub mod Collected
pub mod Taking
pub mod Kept
pub mod Following
pub mod Sweeping
pub mod Traced
