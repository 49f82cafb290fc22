-- What the contracts cite: what rows say, and what `write` leaves. Assumes nothing.
pub mod Rows
pub mod Logging
