-- What a reader of `steps` must believe, in the order of reading.
pub mod Steps
pub mod Theorems
