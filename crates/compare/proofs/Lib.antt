pub mod Rows
pub mod Said
pub mod Compared
pub mod Example
