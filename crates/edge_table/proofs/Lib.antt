pub mod EndsLemmas
pub mod FarLemmas
pub mod FoundLemmas
pub mod IndexLemmas
pub mod ListedLemmas
pub mod PlaceLemmas
pub mod TableLemmas
pub mod Crossing
mod PageLemmas
mod PartitionLemmas
mod PositiveLemmas
