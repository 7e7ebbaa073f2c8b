-- The proofs of `blocks`: laws by subject, lowest first.
pub mod Bits
pub mod Blocks
pub mod Holds
