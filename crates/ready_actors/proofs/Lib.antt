pub mod FlagLemmas
pub mod LevelLemmas
pub mod MemberLemmas
pub mod NextLemmas
pub mod WordLemmas
