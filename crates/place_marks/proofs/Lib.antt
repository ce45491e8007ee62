pub mod EndLemmas
pub mod OrderLemmas
pub mod ReachLemmas
pub mod RoundLemmas
pub mod TargetLemmas
