pub mod Fields
pub mod Named
pub mod Spelling
pub mod Reading
pub mod Spellable
