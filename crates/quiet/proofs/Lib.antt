-- The proofs of `quiet`: laws by subject, lowest first.
pub mod Minutes
pub mod Stages
pub mod Timed
