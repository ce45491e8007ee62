pub mod KeepingLemmas
pub mod CountLemmas
pub mod EntryLemmas
pub mod LogLemmas
