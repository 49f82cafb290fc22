-- What the program prints: the line that some bytes are, and the output for an input.
pub mod Reading
pub mod Output
