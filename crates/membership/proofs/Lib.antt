pub mod LinksLemmas
pub mod LostLemmas
pub mod SetsLemmas
