-- What the contracts cite: what a call promises.
pub mod Translated
pub mod Refusals
