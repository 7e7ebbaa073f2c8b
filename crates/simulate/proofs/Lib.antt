-- The proofs of `simulate`: laws by subject, lowest first.
pub mod Sequences
pub mod Judged
pub mod Theorems
pub mod Simulation
