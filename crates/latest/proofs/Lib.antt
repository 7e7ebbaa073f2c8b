-- The proofs of `latest`: laws by subject, lowest first.
pub mod Laws
pub mod Own
pub mod Unreached
