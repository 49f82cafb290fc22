-- What the three calls promise to those who link them.
pub mod Packing
pub mod Happening
pub mod Calls
