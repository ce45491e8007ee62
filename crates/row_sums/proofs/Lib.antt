pub mod FoldLemmas
pub mod OnesLemmas
pub mod OrderLemmas
pub mod RowLemmas
pub mod SumLemmas
