-- The laws behind the proofs of the functions. Assumes nothing.
pub mod PredicateLaws
pub mod LayingLaws
pub mod AnswerLaws
pub mod RowsTold
pub mod TranslatedLaws
pub mod OneOutcome
