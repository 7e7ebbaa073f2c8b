-- The proofs of `run`.
pub mod Runs
