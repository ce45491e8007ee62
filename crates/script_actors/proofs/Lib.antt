pub mod TableLemmas
pub mod IdleSteps
pub mod CodeSteps
pub mod TurnSteps
pub mod Standings
pub mod Beginnings
