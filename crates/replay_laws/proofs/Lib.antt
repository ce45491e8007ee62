pub mod TextLines
pub mod LimitLemmas
pub mod Ranges
pub mod PrintedVerdicts
pub mod ReadingOn
pub mod Telling
pub mod Reports
pub mod Replayed
