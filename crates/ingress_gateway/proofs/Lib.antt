pub mod CarriedLemmas
pub mod KeepingLemmas
pub mod NamesLemmas
pub mod NumbersLemmas
pub mod TellsLemmas
pub mod WindowLemmas
