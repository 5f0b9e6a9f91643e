pub mod Leaf
pub mod Added
pub mod Arithmetic
pub mod Equality
