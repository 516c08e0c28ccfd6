pub mod Case
pub mod Paper
pub mod Letter
