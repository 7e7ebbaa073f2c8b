-- What a reader of `quiet` must believe, in the order of reading.
pub mod Limits
pub mod Windows
pub mod Quiet
pub mod Theorems
