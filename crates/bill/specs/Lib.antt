pub mod Walk
pub mod Billing
pub mod Listing
pub mod Bills
pub mod Asked
pub mod Rises
