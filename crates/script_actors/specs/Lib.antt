pub mod Table
pub mod Standing
pub mod Turns
pub mod Begun
