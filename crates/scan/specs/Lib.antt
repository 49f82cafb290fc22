-- What the contracts cite: what the scan keeps between two bytes, and what it answers.
pub mod Pending
pub mod Looks
pub mod Scanned
