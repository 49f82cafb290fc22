-- The laws behind the proofs of the functions. Assumes nothing.
pub mod EdgeLaws
pub mod DrivenLaws
pub mod CodedLaws
pub mod LongerLaws
pub mod WordsLaws
pub mod OperatorSteps
pub mod KnownLaws
pub mod OperandSteps
pub mod PassSteps
