pub mod Unbuilt
pub mod PlanFor
pub mod Prepared
pub mod Sound
pub mod Answered
pub mod inner
