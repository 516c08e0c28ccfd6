pub mod Laws
pub mod Rows
pub mod Said
pub mod ReadBack
pub mod Bounds
pub mod Replayed
pub mod Example
