pub mod Pieces
pub mod Header
pub mod Reads
pub mod Words
