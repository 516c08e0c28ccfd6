pub mod Lists
pub mod States
pub mod Choice
pub mod Laws
pub mod Order
pub mod Weighing
