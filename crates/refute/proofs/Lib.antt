-- The proofs of what specs/ states, by subject, lowest first.
pub mod Numbers
pub mod Pairs
pub mod Searching
