pub mod Crossing
pub mod KeyLemmas
pub mod NotedLemmas
