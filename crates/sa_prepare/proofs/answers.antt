pub mod Conditions
pub mod Scanned
pub mod Scan
pub mod Texts
