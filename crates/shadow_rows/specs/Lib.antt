pub mod Pairs
pub mod Tabled
pub mod Settled
pub mod Rows
pub mod Folded
pub mod Losing
pub mod Touched
