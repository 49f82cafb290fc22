-- What the check of a node slice asks.
pub mod Checks
