-- What follows from the definitions. The proofs of the functions stand beside these files.
pub mod BlockLaws
pub mod ServeLaws
pub mod ShowLaws
pub mod TurnShows
pub mod LineShows
pub mod DeskLaws
pub mod ReachLaws
pub mod Printed
pub mod OneOutcome
