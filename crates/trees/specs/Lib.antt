-- What diagrams mean: functions of bits, trees, tables of trees, room, sizes.
pub mod Bits
pub mod Tree
pub mod Table
pub mod Room
pub mod Kept
pub mod Sizes
