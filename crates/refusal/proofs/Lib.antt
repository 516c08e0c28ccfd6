pub mod Codes
pub mod Passed
pub mod Refusals
