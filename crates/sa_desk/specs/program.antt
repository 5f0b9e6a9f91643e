pub mod Course
pub mod Prepares
pub mod Between
pub mod RunEnds
pub mod Statement
pub mod SoFar
pub mod Turn
