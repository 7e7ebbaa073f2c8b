-- The proofs of what specs/ states, by subject, lowest first.
pub mod Classes
pub mod Theorems
pub mod Wrong
