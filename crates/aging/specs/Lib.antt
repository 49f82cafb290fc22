-- What the walks over ages promise.
pub mod Dates
pub mod Tasks
pub mod Slates
