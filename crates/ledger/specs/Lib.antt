pub mod Record
pub mod Ledger
pub mod Replayed
pub mod Permitted
