pub mod Compare
pub mod Pieces
pub mod Compared
