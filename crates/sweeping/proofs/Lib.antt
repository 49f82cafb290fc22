-- The laws of the canonical sweep.
pub mod NoteLaws
pub mod CopyLaws
pub mod SweepLaws
pub mod RowsLaws
pub mod Visited
pub mod OneOutcome
