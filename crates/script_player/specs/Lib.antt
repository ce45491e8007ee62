pub mod Reported
pub mod Beginning
pub mod Links
pub mod Making
pub mod Standing
