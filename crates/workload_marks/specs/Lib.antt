pub mod Differing
pub mod Trio
