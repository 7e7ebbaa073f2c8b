-- The proofs of `explore`: laws by subject, lowest first, and a module for each callee.
pub mod Layers
pub mod Groups
pub mod Turns
pub mod Ends
pub mod Begin
pub mod Jobs
pub mod Drive
