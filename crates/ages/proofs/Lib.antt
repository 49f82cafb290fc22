-- The laws of ages.
pub mod WriteLaws
pub mod WiderLaws
pub mod CountLaws
pub mod ServeLaws
pub mod AgeLaws
pub mod AgeTests
pub mod AgeWalk
pub mod AgeRead
pub mod Cases
