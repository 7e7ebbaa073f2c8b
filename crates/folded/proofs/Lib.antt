-- The proofs of what specs/ states, by subject, lowest first.
pub mod Places
pub mod Checked
pub mod Written
pub mod Read
pub mod Response
pub mod Tables
pub mod Counting
pub mod Outcomes
pub mod Asked
pub mod Matching
pub mod Theorems
pub mod Plans
pub mod Nodes
pub mod Determined
pub mod Wrong
