pub mod Formed
pub mod Gaps
pub mod Idle
