-- The laws of walks that count their visits.
pub mod GrowthLaws
pub mod CountLaws
pub mod VisitLaws
pub mod AnswerLaws
pub mod AskedLaws
pub mod SweepsLaws
pub mod Visited
pub mod VisitSteps
pub mod Cases
