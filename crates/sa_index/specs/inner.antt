pub mod Built
pub mod Columns
pub mod Shelf
