pub mod Csv
pub mod Field
pub mod Record
pub mod Load
pub mod inner
