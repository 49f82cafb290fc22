-- What the contracts cite: the pass over the words, and what its functions promise.
pub mod Drives
pub mod Driving
