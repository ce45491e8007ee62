pub mod Grows
pub mod Reached
pub mod Frames
pub mod Passes
pub mod Keeping
pub mod Claims
pub mod Verdicts
pub mod Kept
pub mod GrantedTurns
pub mod Granted
pub mod CourseLaws
pub mod SoundCourses
pub mod LegalGrants
pub mod Over
pub mod OverCourses
pub mod StillFits
mod CourseExamples
