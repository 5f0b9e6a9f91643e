pub mod Choices
pub mod Groups
pub mod Meaning
pub mod Answers
pub mod Kinds
pub mod WellTyped
