-- The laws behind the proofs of the functions. Assumes nothing.
pub mod RulingLaws
pub mod SmallLaws
pub mod OneOutcome
