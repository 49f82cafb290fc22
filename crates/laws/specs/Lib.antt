-- What the laws of references speak of.
pub mod Calls
pub mod Forms
