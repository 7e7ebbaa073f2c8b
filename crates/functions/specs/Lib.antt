-- What a reader of `functions` must believe, in the order of reading.
pub mod Functions
pub mod Theorems
