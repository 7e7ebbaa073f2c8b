-- The proofs of `paths`: laws by subject, lowest first.
pub mod Arrays
pub mod Places
pub mod Smallest
pub mod Leading
pub mod Following
pub mod Numbers
