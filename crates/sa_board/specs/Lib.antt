pub mod Board
pub mod History
pub mod Pass
pub mod Rule
pub mod Sentences
pub mod Steps
pub mod View
pub mod inner
