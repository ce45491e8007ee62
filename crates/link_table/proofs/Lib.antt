pub mod CountingLemmas
pub mod KeepingLemmas
pub mod PiledLemmas
pub mod StandingLemmas
pub mod StandingSteps
pub mod TableLemmas
