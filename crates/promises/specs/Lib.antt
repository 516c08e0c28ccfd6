pub mod Fixed
pub mod Figures
pub mod FirstBytes
pub mod Reads
