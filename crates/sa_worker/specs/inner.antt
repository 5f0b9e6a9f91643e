pub mod Fields
pub mod Ties
pub mod Steps
pub mod Called
