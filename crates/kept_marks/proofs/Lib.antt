pub mod PlaceSetLemmas
pub mod KeptLemmas
pub mod StepLemmas
pub mod SweepLemmas
pub mod ChangeLemmas
