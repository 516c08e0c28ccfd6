pub mod Checks
pub mod Lists
pub mod Storing
pub mod Renewing
pub mod Appended
pub mod Changes
pub mod Example
