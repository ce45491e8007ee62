pub mod KeyedLemmas
pub mod RowLemmas
pub mod ShadowLemmas
pub mod NameLemmas
pub mod NumberLemmas
pub mod Crossing
