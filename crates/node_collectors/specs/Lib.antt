pub mod Standing
pub mod Wanted
