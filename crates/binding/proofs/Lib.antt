-- The laws of the first binding.
pub mod CanLaws
pub mod MarkLaws
pub mod FixLaws
pub mod FirstLaws
pub mod ChainLaws
pub mod Cases
