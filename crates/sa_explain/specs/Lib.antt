pub mod Number
pub mod Values
pub mod Written
pub mod Access
pub mod Document
