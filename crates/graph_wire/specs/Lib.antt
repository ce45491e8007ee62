pub mod Gives
pub mod Marks
pub mod Pushed
pub mod Rises
pub mod Writable
