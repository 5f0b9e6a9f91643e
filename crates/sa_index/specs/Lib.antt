pub mod Indexed
pub mod Entries
pub mod Law
pub mod inner
