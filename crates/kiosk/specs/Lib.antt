-- What the contracts cite: what a block leaves, and a run over an input that comes in blocks.
pub mod Desks
pub mod Runs
