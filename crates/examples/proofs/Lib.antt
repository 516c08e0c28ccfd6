pub mod Paper
pub mod Letter
