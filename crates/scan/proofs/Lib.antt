-- The laws behind the proofs of the functions. Assumes nothing.
pub mod RuleLaws
pub mod GiveLaws
pub mod MayLaws
pub mod BeginLaws
pub mod StepLaws
pub mod ScanLaws
