pub mod Counter
pub mod Map
