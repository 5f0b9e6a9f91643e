pub mod Board
pub mod Pass
