-- The first binding of some variables, and bits fixed one after the other.
pub mod First
pub mod Fixing
pub mod Chain
