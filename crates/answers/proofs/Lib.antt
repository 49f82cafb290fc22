-- What follows from the definitions. The proofs of the functions stand beside these files.
pub mod PutLaws
pub mod SheetLaws
pub mod NumberLaws
