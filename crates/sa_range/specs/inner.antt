pub mod Placed
pub mod Constant
pub mod Longer
pub mod Joined
