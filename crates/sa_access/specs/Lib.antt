pub mod Asked
pub mod Sought
pub mod Offered
pub mod Least
pub mod inner
