-- What the contract cites: the answer as numbers, and what the call leaves.
pub mod Ruling
