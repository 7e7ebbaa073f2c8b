-- The proofs of what specs/ states, by subject, lowest first.
pub mod Starting
pub mod Finding
pub mod Writing
pub mod Bytes
pub mod Theorems
pub mod Outcomes
