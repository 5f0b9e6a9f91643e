pub mod Records
pub mod Digits
pub mod FieldCauses
pub mod RecordCauses
pub mod RowCauses
pub mod Takes
pub mod Loading
