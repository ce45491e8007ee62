pub mod Begun
pub mod Calling
pub mod Turning
