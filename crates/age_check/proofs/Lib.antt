-- The laws of the marks.
pub mod MarkLaws
pub mod OneOutcome
