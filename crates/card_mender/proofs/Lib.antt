-- Laws of mending: flags, what a piece comes to (WeighLaws, Weights), the look ahead (LookLaws), stores (PutLaws), mending under way
-- (GoingLaws), and that there is one outcome (MendedOnce). Assumes nothing.
pub mod FlagLaws
pub mod WeighLaws
pub mod Weights
pub mod LookLaws
pub mod PutLaws
pub mod GoingLaws
pub mod MendedOnce
