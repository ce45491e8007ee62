pub mod NumberLaws
pub mod SettingLaws
pub mod OrderLaws
pub mod CommandLaws
