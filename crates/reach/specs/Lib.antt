-- What a reader of `reach` must believe, in the order of reading.
pub mod Reach
pub mod Theorems
