pub mod Semiring
pub mod Chain
pub mod Datalog
