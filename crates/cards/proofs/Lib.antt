-- Laws and theorems, from bytes up to cards. Theorems: Readings (one reading), RoundTrip, Mends (mended is readable, numbers kept, listed
-- once), NamedPlace, LeftAlone, StretchLaws (mending over whole stretches), Ahead (mending in order). Assumes nothing.
pub mod Tests
pub mod BytesLaws
pub mod BlockLaws
pub mod PieceLaws
pub mod MomentLaws
pub mod SplitLaws
pub mod MomentRecords
pub mod CountingLaws
pub mod FateLaws
pub mod CardLaws
pub mod MendLaws
pub mod WalkLaws
pub mod StretchLaws
pub mod Readings
pub mod NamedPlace
pub mod FirstBad
pub mod RoundTrip
pub mod Mends
pub mod LeftAlone
pub mod Ahead
pub mod Cases
