-- What follows from the definitions. The proofs of the functions stand beside these files.
pub mod HeldLaws
pub mod EndLaws
pub mod FrontLaws
pub mod OneOutcome
