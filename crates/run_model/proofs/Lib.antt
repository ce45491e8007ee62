pub mod RoundSteps
pub mod RoundStages
pub mod RoundQuiet
mod RoundExamples
mod Scripts
mod ScheduleExamples
mod FollowsExamples
pub mod NextLaws
pub mod TurnLaws
pub mod HeldNames
pub mod ActsLegal
pub mod Beginnings
pub mod Runs
pub mod TurnsDone
pub mod Scheduled
pub mod SeedsLegal
pub mod ReadScripts
pub mod FirstLimits
pub mod TurnsDue
pub mod PartTurns
pub mod SeedRows
pub mod LowestActors
pub mod Numbers
pub mod Possible
pub mod Carrying
pub mod ScriptRanges
