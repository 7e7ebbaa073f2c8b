-- The proofs of the code that draws.
pub mod Frames
pub mod Outputs
