-- The proofs of `refine`: laws by subject, lowest first.
pub mod Numbers
pub mod Buckets
pub mod Same
pub mod Refining
pub mod Collecting
