-- The proofs of `table`: laws by subject, lowest first.
pub mod Offsets
pub mod Parts
pub mod Accepted
