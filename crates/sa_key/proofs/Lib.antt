mod OrderLemmas
pub mod RangeLemmas
