-- The demands of the code, and the laws that they are cited from.
pub mod RunLaws
pub mod AnsweredLaws
pub mod FreshRuns
pub mod LargerRuns
pub mod Demands
