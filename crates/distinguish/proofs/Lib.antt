-- The proofs of `distinguish`: laws by subject, lowest first.
pub mod Below
pub mod Separating
pub mod Entries
pub mod Searching
pub mod Theorems
pub mod Outcomes
