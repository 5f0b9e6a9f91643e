pub mod Asking
pub mod Counted
pub mod Found
pub mod Offer
