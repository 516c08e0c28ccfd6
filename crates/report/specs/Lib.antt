pub mod Report
pub mod Pieces
pub mod Examples
pub mod Prints
