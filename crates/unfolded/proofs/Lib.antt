-- The proofs of what specs/ states, by subject, lowest first.
pub mod Lists
pub mod Gates
pub mod Frames
pub mod Drawings
pub mod Bits
pub mod Values
pub mod Counts
pub mod Outcomes
pub mod Theorems
