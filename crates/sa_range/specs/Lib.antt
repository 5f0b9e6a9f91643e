pub mod Line
pub mod Atom
pub mod RangeList
pub mod inner
