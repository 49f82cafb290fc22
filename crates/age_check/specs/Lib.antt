-- What the check of age diagrams promises.
pub mod Marks
