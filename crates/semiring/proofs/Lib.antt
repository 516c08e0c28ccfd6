pub mod Datalog
pub mod Continuous
pub mod Semiring
pub mod Chain
