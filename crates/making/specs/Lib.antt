-- What find-or-make, the memory of results and the numbers of facts promise.
pub mod Tables
pub mod Cubes
pub mod Loans
