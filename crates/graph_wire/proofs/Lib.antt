pub mod Sorting
pub mod Pushing
pub mod Room
pub mod Loops
pub mod Marks
pub mod Ends
