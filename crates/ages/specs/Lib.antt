-- What ages are.
pub mod Ages
