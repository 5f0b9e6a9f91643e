pub mod Value
pub mod Compare
pub mod Logic
