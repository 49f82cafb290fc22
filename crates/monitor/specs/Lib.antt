-- What the calls of the monitor promise.
pub mod Calls
pub mod Said
pub mod Decisions
pub mod Visits
pub mod Numbered
pub mod Events
pub mod Runs
