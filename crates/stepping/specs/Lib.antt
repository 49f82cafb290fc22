-- What a step and its rows answer. What an event makes of the diagrams is defined in the crate `diagram`.
pub mod Answers
