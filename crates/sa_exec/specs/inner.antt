pub mod Chosen
pub mod Place
pub mod Ready
pub mod Sound
