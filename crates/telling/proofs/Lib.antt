-- The laws of following, and of entries.
pub mod FollowLaws
pub mod EntriesLaws
pub mod PassLaws
pub mod WayLaws
pub mod AlikeLaws
pub mod Told
pub mod OneOutcome
pub mod Cases
