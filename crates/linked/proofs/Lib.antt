-- What follows from the definitions. The proofs of the functions stand beside these files.
pub mod PackingLaws
pub mod HappeningLaws
pub mod AnswerLaws
pub mod CallLaws
pub mod OneOutcome
pub mod RunLaws
