pub mod Keeping
pub mod Table
pub mod Standing
