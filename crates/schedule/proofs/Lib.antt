-- The proofs of `schedule`: laws by subject, lowest first.
pub mod Lists
pub mod Spread
