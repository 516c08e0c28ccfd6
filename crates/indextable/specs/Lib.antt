pub mod Index
pub mod Told
pub mod Checkable
pub mod Asked
