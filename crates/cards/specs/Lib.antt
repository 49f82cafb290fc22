-- What the contracts cite: bytes, records and moments, blocks, what a card says, what mending keeps, what is written, and how a program
-- keeps an open moment and looks ahead. Assumes nothing.
pub mod Bytes
pub mod Moments
pub mod Blocks
pub mod Reading
pub mod Mending
pub mod Writing
pub mod Counting
pub mod Piecewise
