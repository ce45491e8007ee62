pub mod PlaceSet
pub mod Kept
