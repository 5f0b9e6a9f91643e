pub mod Refusal
pub mod FieldParts
pub mod RowParts
pub mod Reading
