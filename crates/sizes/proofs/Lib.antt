-- The laws of sizes.
pub mod WordLaws
pub mod LowestLaws
pub mod GiveLaws
pub mod Sized
pub mod CountingLaws
pub mod PassLaws
pub mod SizesLaws
pub mod AskedLaws
pub mod OneOutcome
pub mod Cases
