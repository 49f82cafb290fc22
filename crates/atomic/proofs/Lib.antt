-- The laws behind the proofs of the functions. Assumes nothing.
pub mod PutLaws
pub mod AddLaws
pub mod CollectLaws
pub mod WholeLaws
