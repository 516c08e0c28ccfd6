pub mod WhereUsed
pub mod Listed
