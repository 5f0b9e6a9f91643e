pub mod Small
pub mod Compared
pub mod Ends
