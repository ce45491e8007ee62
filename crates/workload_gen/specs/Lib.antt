pub mod Makers
pub mod Trees
pub mod Texts
pub mod Scripts
