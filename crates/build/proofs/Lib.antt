-- The proofs of `build`: laws by subject, lowest first, and building as a loop.
pub mod Laws
pub mod Turn
mod Loop
