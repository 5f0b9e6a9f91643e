pub mod Data
pub mod Items
pub mod Output
pub mod Counts
pub mod Progress
