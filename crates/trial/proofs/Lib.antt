-- The proofs of what specs/ states, by subject, lowest first.
pub mod Bits
pub mod Places
pub mod Following
pub mod Collecting
