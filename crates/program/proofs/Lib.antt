-- The proofs of `program`: laws by subject, lowest first, and a module for each callee of a walk.
mod Runs
