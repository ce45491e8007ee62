pub mod Trace
pub mod Marked
pub mod Traced
