-- The proofs of the code that counts gates.
pub mod Needs
