pub mod Divisors
pub mod Reduction
pub mod Spread
pub mod Totals
pub mod Ranges
pub mod Accepting
pub mod Summarized
pub mod Worked
