pub mod Home
pub mod Members
pub mod Start
