-- The laws behind the proofs of the functions. Assumes nothing.
pub mod TableLaws
pub mod FrameLaws
pub mod StackLaws
pub mod LongerLaws
pub mod ShutLaws
