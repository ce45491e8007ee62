pub mod Pieces
pub mod RowReports
pub mod Stops
