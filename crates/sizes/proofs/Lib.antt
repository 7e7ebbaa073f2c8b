-- The proofs of `sizes`: laws by subject, lowest first.
pub mod Laws
