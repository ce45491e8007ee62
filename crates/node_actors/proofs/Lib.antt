pub mod BirthLemmas
pub mod KeepingLemmas
