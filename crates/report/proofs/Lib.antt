-- The proofs of `report`: laws by subject, lowest first.
pub mod Decimal
pub mod Appending
pub mod Lines
