pub mod Amend
pub mod Printed
