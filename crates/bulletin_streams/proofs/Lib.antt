pub mod BoundLemmas
pub mod QueueLemmas
pub mod RowLemmas
pub mod StandingLemmas
