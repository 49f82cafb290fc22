-- What the contracts cite: what one piece comes to, what a look at it says, and what `mend` leaves in the slices. Assumes nothing.
pub mod Weighing
pub mod Lines
pub mod Turning
