pub mod Along
pub mod Members
