-- What a reader of `merged` must believe, in the order of reading.
pub mod Merged
pub mod Demands
pub mod Theorems
