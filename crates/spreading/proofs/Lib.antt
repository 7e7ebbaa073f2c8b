-- The proofs of what specs/ states, by subject, lowest first.
pub mod Schedule
pub mod Outcomes
pub mod Values
pub mod Alike
pub mod Theorems
pub mod Nodes
