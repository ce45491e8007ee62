pub mod Returned
pub mod Leading
pub mod Ended
pub mod Closed
