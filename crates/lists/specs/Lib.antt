-- What the functions of this crate promise, over the definitions of `meaning`.
pub mod Slots
pub mod Writing
