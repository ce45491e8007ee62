pub mod Numbers
pub mod Shadows
