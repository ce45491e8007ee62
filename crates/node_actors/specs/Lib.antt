pub mod Keeping
pub mod Node
