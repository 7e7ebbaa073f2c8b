-- The proofs of `view`.
pub mod Views
pub mod LayerParts
