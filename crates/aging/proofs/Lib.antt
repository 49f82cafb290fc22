-- The laws that the proofs of the walks over ages cite.
pub mod NextLaws
pub mod ChainLaws
pub mod SlateLaws
pub mod EndLaws
pub mod TaskLaws
pub mod WipeLaws
pub mod OneOutcome
