pub mod Uses
pub mod Indexable
