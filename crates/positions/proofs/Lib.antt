-- The proofs of `positions`.
pub mod Positions
