-- What a reader of `simulate` must believe, in the order of reading.
pub mod Limits
pub mod Simulate
pub mod Theorems
