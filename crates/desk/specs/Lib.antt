pub mod Desk
pub mod Priced
pub mod Second
pub mod Appended
