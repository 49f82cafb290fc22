-- What the contracts cite: what a slice holds while a block is written in it. Assumes nothing.
pub mod Sheets
