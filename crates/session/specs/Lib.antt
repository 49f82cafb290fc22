-- What the contracts cite: what a session keeps, and what each call leaves.
pub mod Sessions
pub mod Lefts
