pub mod Answering
pub mod Bounds
pub mod Growing
pub mod MailEvents
pub mod Pairs
pub mod Readings
pub mod Stopping
pub mod ToldEvents
