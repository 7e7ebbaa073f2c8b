-- The proofs of the code that stores gather chains.
pub mod Edges
