-- The proofs of `lent`: laws of the scratch that is needed.
pub mod Needed
