pub mod Rows
pub mod Said
pub mod Example
pub mod Listed
