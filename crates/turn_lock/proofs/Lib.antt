pub mod Calls
pub mod Rosters
pub mod Keeps
pub mod Ends
pub mod Accounts
pub mod Crossing
