-- The laws that the proofs of the walks cite.
pub mod FirstLaws
pub mod SettleLaws
pub mod MemoryLaws
pub mod SinceLaws
pub mod StepLaws
pub mod NotLaws
pub mod DropLaws
pub mod DeskLaws
pub mod MapLaws
pub mod ComplementLaws
pub mod Visited
pub mod CallLaws
