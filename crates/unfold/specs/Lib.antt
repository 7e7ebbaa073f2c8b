-- What a reader of `unfold` must believe, in the order of reading.
pub mod Unfold
