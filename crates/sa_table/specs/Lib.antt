pub mod Table
pub mod Create
pub mod AddRow
pub mod Sound
pub mod inner
