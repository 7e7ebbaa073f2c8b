-- The proofs of `conjoin`: laws of the cache, a turn of the AND, and each call.
pub mod Laws
pub mod Turn
