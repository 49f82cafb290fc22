-- What the contracts cite: tables of rows and what they denote.
pub mod Denoted
pub mod Framing
pub mod Stacking
