-- The proofs of `admit`: laws of what it judges.
pub mod Judged
