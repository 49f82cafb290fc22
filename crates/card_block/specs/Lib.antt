-- What the contracts cite: a block's shape by tests of its bytes, and what `judge` answers. Assumes nothing.
pub mod Shapes
pub mod Judging
