pub mod TryLemmas
pub mod Staging
pub mod Adding
pub mod FlushLemmas
pub mod HandLemmas
