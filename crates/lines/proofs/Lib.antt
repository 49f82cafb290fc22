-- The laws behind the functions' proofs, from numerals up to lines, and the theorems: one reading (Readings), no long line (Long). Assumes nothing.
pub mod Every
pub mod Numeral
pub mod Opens
pub mod Begun
pub mod Spaced
pub mod Run
pub mod Running
pub mod Text
pub mod Sizes
pub mod Row
pub mod Event
pub mod Readings
pub mod Long
pub mod Cases
