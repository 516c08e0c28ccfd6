pub mod Quote
pub mod Quoted
