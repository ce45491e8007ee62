pub mod Ends
pub mod Leads
pub mod Gathers
pub mod Within
pub mod Closes
pub mod Claims
pub mod Crossing
