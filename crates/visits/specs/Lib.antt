-- The complement and the sweep, with their visits.
pub mod Visits
