-- What a reader of `fold` must believe, in the order of reading.
pub mod Fold
