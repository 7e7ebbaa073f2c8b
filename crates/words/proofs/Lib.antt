-- The proofs of `words`: laws by subject, lowest first.
pub mod Laws
