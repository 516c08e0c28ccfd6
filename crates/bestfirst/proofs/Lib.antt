pub mod Clear
pub mod Turning
pub mod Whole
