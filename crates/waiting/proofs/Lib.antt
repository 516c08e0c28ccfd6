pub mod Keeping
pub mod Steps
pub mod Short
pub mod Walking
pub mod Starts
pub mod Queueing
