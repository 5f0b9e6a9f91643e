pub mod Desk
pub mod Parts
pub mod PlainDesks
pub mod NextPlain
