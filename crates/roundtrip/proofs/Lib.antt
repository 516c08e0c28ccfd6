pub mod Texts
pub mod Refused
pub mod RoundTrip
