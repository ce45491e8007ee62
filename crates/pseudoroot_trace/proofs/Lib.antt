pub mod GraphLemmas
pub mod SweepLemmas
pub mod NamedLemmas
pub mod TouchLemmas
pub mod TracedLemmas
pub mod SweptLemmas
pub mod Crossing
