-- The laws that the proofs of the diagram layer cite.
pub mod RemovalLaws
pub mod RowLaws
pub mod TurnLaws
