pub mod Walk
pub mod Stops
