-- What follows from the definitions of specs/, for the proofs of the functions.
pub mod FitLaws
pub mod MatchingLaws
pub mod PlaceLaws
pub mod PartLaws
pub mod LookLaws
pub mod TallyLaws
pub mod WalkLaws
pub mod SheetLaws
pub mod StartLaws
pub mod CopyLaws
pub mod FactsLaws
pub mod AskedLaws
