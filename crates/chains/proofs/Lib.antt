-- The proofs of the code that stores chains: laws by subject, lowest first.
pub mod Laws
pub mod Stored
