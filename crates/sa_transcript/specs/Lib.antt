pub mod Names
pub mod Outcome
pub mod Line
pub mod Transcript
pub mod FaultLine
pub mod inner
