pub mod Ordering
pub mod Right
pub mod Walking
pub mod Worked
