-- What is asked of references, and how one pass over the kept nodes finds sizes.
pub mod Leading
pub mod Words
