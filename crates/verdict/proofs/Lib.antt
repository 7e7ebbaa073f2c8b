-- The proofs of `verdict`: laws by subject, lowest first.
pub mod Laws
