-- What the contracts cite: the numeral of a number, the format of a line, and the promises of the reader's parts. Assumes nothing.
pub mod Numeral
pub mod Format
pub mod Parts
