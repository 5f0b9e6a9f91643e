pub mod Opened
pub mod Quoted
pub mod Wrong
pub mod Reading
pub mod Cutting
