pub mod GatheredLemmas
pub mod FitLemmas
pub mod StateLemmas
pub mod NameLemmas
