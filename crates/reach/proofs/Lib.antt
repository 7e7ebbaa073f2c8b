-- The proofs of `reach`: laws by subject, lowest first.
pub mod Stored
pub mod Bytes
pub mod Theorems
pub mod Outcomes
