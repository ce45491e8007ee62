pub mod Admission
pub mod Gate
pub mod Keeping
pub mod NameSet
pub mod Numbered
pub mod Pending
pub mod Runs
pub mod Told
