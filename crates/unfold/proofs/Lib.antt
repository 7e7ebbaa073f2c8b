-- The proofs of the code that unfolds.
pub mod Circuits
