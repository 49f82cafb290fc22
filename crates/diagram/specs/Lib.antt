-- What the diagram layer promises.
pub mod Steps
pub mod Counts
pub mod Works
