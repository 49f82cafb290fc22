-- What the canonical sweep promises.
pub mod Sweeps
