-- The proofs of what specs/ states, by subject, lowest first.
pub mod Signals
pub mod Sequences
pub mod Outputs
