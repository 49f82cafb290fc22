-- What the rows of a rule ask of the diagrams in one event.
pub mod Plan
pub mod Read
pub mod Worked
pub mod Planned
