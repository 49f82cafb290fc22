-- The theorems: `line_of` is the reading of the line format (ReadingLaws), the output goes byte by byte (ByteLaws), an event keeps every length
-- (LengthLaws); and what the definition prints, computed: 01's listing (Listing), and the limits of the input (Limits). Assumes nothing.
pub mod ReadingLaws
pub mod ByteLaws
pub mod LengthLaws
pub mod Listing
pub mod Limits
