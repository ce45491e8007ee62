pub mod Trees
pub mod TakenLemmas
pub mod NumberingLemmas
pub mod EachLaws
pub mod InstructionLaws
pub mod DraftLaws
pub mod KeptLaws
pub mod ReadLaws
mod ScriptExamples
pub mod NumberedLaws
