-- The proofs of `steps`: laws by subject, lowest first.
pub mod Steps
