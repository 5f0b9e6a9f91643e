pub mod Everywhere
pub mod KindLemmas
pub mod Members
