pub mod Ends
pub mod Keeping
pub mod Log
pub mod Unflushed
