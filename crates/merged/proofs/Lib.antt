-- The proofs of what specs/ states, by subject, lowest first.
pub mod Bits
pub mod Histories
pub mod Demands
pub mod Numbers
pub mod Matching
pub mod Chosen
pub mod Undecided
