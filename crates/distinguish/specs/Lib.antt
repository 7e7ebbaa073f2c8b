-- What a reader of `distinguish` must believe, in the order of reading.
pub mod Distinguish
pub mod Theorems
pub mod Pairs
