-- What follows from the definitions. The proofs of the functions stand beside these files.
pub mod SessionLaws
pub mod PartLaws
pub mod TurnLaws
pub mod KeepLaws
pub mod LineLaws
pub mod OneOutcome
