pub mod Fixed
pub mod Given
pub mod All
pub mod Legal
pub mod Turned
