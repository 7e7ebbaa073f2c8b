-- The proofs of `answers`: laws by subject, lowest first.
pub mod Laws
