-- The proofs of `commit`: what it makes of a call of `fold_wanted`.
mod Committed
