pub mod Decoded
pub mod Results
pub mod Numbers
