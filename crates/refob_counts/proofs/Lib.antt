pub mod CountsLemmas
pub mod RisingLemmas
pub mod TableLemmas
