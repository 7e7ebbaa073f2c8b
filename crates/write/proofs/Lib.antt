-- The proofs of `write`: laws by subject, lowest first.
pub mod Heads
mod Nexts
mod Rows
mod Tables
