-- The proofs of `lanes`: laws by subject, lowest first.
pub mod Bits
pub mod Laws
pub mod Made
