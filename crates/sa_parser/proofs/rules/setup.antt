pub mod Column
pub mod Create
pub mod Insert
pub mod Key
pub mod Kind
pub mod Literal
pub mod Setup
