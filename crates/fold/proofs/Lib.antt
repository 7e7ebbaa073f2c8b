-- The proofs of `fold`: laws by subject, lowest first.
pub mod Judged
pub mod Finished
