pub mod Fractions
pub mod Samples
pub mod Summaries
pub mod Worked
