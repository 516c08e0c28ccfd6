pub mod Results
pub mod Decoded
