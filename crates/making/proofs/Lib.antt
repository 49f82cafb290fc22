-- The laws that the proofs of find-or-make and of facts' numbers cite.
pub mod NodesLaws
pub mod SideLaws
pub mod WalkLaws
pub mod CubeLaws
pub mod IntoLaws
