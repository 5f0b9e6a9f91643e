pub mod Sample
pub mod inner
