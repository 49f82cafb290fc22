-- What follows from the definitions. The proofs of the functions stand beside these files.
pub mod MasksLaws
pub mod TableLaws
pub mod DecodedLaws
pub mod RightLaws
pub mod AgreesLaws
pub mod FormulasLaws
pub mod CheckingLaws
pub mod OneOutcome
