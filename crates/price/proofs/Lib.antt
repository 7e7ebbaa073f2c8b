-- The proofs of `price`: laws by subject, lowest first.
pub mod Bands
pub mod Prices
pub mod Theorems
