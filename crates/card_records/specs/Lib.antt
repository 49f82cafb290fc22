-- What the contracts cite: the record that a struct says. Assumes nothing.
pub mod Facts
