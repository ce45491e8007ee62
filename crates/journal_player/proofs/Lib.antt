pub mod LinesLemmas
pub mod HeaderLaws
pub mod DueLines
pub mod Outcomes
pub mod Replaying
pub mod Journals
pub mod Hearing
