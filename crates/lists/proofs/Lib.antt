-- What follows from the definitions of specs/, for the proofs of the functions.
pub mod SlotsLaws
pub mod ListsLaws
pub mod WritingLaws
pub mod WrittenLaws
