pub mod Following
pub mod Fitting
pub mod Answered
pub mod Reading
pub mod Standing
pub mod Downs
