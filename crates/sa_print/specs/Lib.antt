pub mod Quoted
pub mod Name
pub mod Lists
pub mod Expression
pub mod Select
pub mod Statement
