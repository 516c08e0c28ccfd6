pub mod Keys
pub mod Queue
