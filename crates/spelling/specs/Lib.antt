-- What the contracts cite: words, bytes and modes by number, the code's kinds and modes by theirs, and the next word of a text.
pub mod Kinds
pub mod Modes
pub mod Codes
