pub mod Choice
pub mod Figures
pub mod Measures
pub mod Labels
pub mod Offers
pub mod Laws
pub mod Order
pub mod Lists
