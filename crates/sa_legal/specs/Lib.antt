pub mod Shows
pub mod Prepared
pub mod Rows
pub mod Answered
pub mod Requests
pub mod Runs
