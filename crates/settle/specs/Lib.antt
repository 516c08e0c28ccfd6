pub mod Settling
pub mod Checking
pub mod Comparing
pub mod Resting
pub mod Demands
pub mod Defined
pub mod States
pub mod Worth
