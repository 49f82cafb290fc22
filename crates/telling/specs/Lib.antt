-- What it is that a diagram tells two numbers apart, and its entries.
pub mod Follow
pub mod Entries
