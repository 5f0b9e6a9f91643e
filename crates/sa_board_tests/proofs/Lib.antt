pub mod Founding
pub mod Newcomers
pub mod Still
pub mod Turned
