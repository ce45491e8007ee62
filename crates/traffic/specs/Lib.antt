pub mod Changes
pub mod Fitting
pub mod Loads
pub mod Readings
pub mod Standing
pub mod TrafficState
