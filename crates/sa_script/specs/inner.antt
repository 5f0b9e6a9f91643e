pub mod Tells
pub mod Setup
pub mod Places
pub mod Block
pub mod Step
