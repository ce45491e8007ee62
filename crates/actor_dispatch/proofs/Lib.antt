pub mod Leaving
pub mod Making
pub mod Replies
pub mod Starting
