pub mod ActLaws
pub mod BirthLaws
pub mod EndLaws
pub mod HeldLaws
pub mod MadeLaws
pub mod NameLaws
pub mod NumberLaws
pub mod RowLaws
pub mod RunLaws
pub mod StepLaws
mod TurnExamples
