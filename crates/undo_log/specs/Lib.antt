pub mod Keys
pub mod Noted
pub mod Told
pub mod Totals
