pub mod Sums
pub mod Links
pub mod Stages
pub mod Whole
pub mod Accepted
pub mod Example
