pub mod OnlyLevel
pub mod Cells
pub mod Passing
pub mod PlaceLemmas
pub mod IsAtLemmas
pub mod SoundLemmas
