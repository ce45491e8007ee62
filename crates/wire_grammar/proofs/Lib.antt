mod Examples
pub mod Readers
pub mod Tables
pub mod Rows
pub mod Names
pub mod Bulletins
