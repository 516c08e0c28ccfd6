pub mod Laws
pub mod Results
pub mod Said
pub mod Told
