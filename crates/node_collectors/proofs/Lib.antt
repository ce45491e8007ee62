pub mod BulletinLemmas
pub mod StandLemmas
pub mod WithinLemmas
pub mod WantedLemmas
