pub mod Firsts
pub mod Pieces
pub mod Reads
pub mod Setup
pub mod Loads
pub mod Directs
pub mod Says
pub mod Leads
