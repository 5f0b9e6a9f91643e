pub mod Ended
pub mod Join
pub mod Raise
pub mod Release
pub mod Split
pub mod Start
pub mod Take
