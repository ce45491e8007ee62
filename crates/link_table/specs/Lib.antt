pub mod Keeping
pub mod LinkState
pub mod Piled
pub mod Standing
pub mod Table
