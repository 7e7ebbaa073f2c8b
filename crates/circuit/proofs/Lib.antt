-- The proofs of `circuit`: laws by subject, lowest first.
pub mod Bits
pub mod Literals
pub mod Laws
pub mod Lists
pub mod Found
pub mod Frames
pub mod Accepted
pub mod Stages
pub mod Ahead
pub mod Unconnected
pub mod Judged
pub mod Causal
pub mod Gates
pub mod Written
