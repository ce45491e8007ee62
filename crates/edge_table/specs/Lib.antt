pub mod Ends
pub mod Far
pub mod Lends
pub mod Paired
pub mod Partition
pub mod Table
