pub mod Stopping
pub mod Totals
pub mod Following
pub mod Counting
pub mod Summing
pub mod GivenVerdicts
