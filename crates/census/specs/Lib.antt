-- What the contracts cite: what is told of words one after the other, and what each pass answers.
pub mod Folds
pub mod Told
pub mod Tables
pub mod Noting
pub mod Clashes
pub mod Scopes
pub mod TwoBytes
