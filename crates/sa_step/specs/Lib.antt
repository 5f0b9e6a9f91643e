pub mod Sessions
pub mod Starts
pub mod Remaining
pub mod Turns
pub mod Schedule
pub mod Course
pub mod inner
