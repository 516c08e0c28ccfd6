pub mod Laws
pub mod Appending
pub mod Priced
pub mod Second
