pub mod On
pub mod Interrupted
pub mod Talk
pub mod Shown
pub mod Answered
pub mod Others
