pub mod Access
pub mod Answer
pub mod Chosen
pub mod Scan
pub mod Lawful
pub mod Names
