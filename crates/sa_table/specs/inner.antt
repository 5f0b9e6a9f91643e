pub mod Cells
pub mod Column
pub mod Digest
pub mod Index
pub mod Store
pub mod First
pub mod Keys
pub mod Stored
