-- The proofs of what specs/ states, by subject, lowest first.
pub mod Standing
pub mod Rearranged
pub mod Sources
pub mod Signals
