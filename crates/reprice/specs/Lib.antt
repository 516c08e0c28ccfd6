pub mod Repricing
pub mod Demand3
pub mod Revision
pub mod Changes
pub mod Restoring
