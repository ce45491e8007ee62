pub mod ChecksLemmas
