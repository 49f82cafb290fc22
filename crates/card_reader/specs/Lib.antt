-- What the contracts cite: one step of the reader, and what it finds on a card. Assumes nothing.
pub mod Stepping
pub mod Finding
