pub mod Bytes
pub mod Shuffled
pub mod Places
