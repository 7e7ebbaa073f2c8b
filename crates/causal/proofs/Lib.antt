-- The proofs of `causal`: laws by subject, lowest first.
pub mod Places
pub mod Played
pub mod Parts
pub mod Pass
