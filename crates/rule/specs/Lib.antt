-- What the checks of a rule promise.
pub mod Decoded
pub mod Table
pub mod Masks
pub mod Checking
