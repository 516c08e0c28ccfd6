pub mod Appending
pub mod Growing
pub mod Given
pub mod Leaves
pub mod Changes
pub mod Asked
