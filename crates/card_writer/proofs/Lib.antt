-- Laws of a block that is being written. Assumes nothing.
pub mod SheetLaws
pub mod StoreLaws
