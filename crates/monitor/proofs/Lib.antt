-- What follows from the definitions. The proofs of the functions stand beside these files.
pub mod LentLaws
pub mod StartLaws
pub mod OneOutcome
pub mod DecisionLaws
pub mod TakenLaws
pub mod FormedLaws
pub mod WorkLaws
pub mod SaidLaws
pub mod EventLaws
pub mod WorkedLaws
pub mod NumberedLaws
