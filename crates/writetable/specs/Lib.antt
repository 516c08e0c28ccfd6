pub mod Write
pub mod Asked
