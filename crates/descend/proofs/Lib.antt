-- Laws of a turn, and a module for each callee.
pub mod Laws
