-- The proofs of `spread`: laws of what it answers and leaves.
pub mod Ended
