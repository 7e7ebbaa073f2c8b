-- The proofs of `ask`: laws by subject, lowest first.
pub mod Plans
pub mod Answered
