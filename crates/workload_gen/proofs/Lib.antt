pub mod MakersLemmas
pub mod LineFeed
pub mod Readable
pub mod TreeLaws
pub mod ScriptLaws
pub mod GeneratedLaws
