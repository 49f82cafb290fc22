-- The laws behind the proofs of the functions. Assumes nothing.
pub mod Each
pub mod KindLaws
pub mod Tables
pub mod Classes
pub mod SameLaws
pub mod RunLaws
pub mod PickLaws
pub mod FirstLaws
pub mod NextLaws
