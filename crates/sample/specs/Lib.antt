pub mod Sample
pub mod Told
pub mod Permitted
