-- The figures hold.
pub mod Quick
pub mod Vectors
