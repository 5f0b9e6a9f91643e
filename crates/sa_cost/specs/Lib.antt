pub mod Cost
pub mod Law
