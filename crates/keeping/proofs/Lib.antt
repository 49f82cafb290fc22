-- The laws that the proofs of the check cite.
pub mod CheckLaws
pub mod RowLaws
pub mod OrderLaws
pub mod BitLaws
pub mod FreeLaws
pub mod SoundLaws
pub mod VerdictLaws
