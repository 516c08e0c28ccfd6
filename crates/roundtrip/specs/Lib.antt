pub mod RoundTrip
pub mod Refused
pub mod Reads
