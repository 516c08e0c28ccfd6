pub mod Shelf
pub mod Replaying
pub mod Record
pub mod Worked
pub mod Asked
