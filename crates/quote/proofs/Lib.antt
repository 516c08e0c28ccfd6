pub mod Rows
pub mod Said
pub mod Quoted
pub mod Example
