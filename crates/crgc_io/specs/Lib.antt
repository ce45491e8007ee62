pub mod Edges
pub mod Fault
pub mod Memory
pub mod Recorded
pub mod Taken
