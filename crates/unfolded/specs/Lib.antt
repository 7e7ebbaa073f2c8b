-- What a reader of `unfolded` must believe, in the order of reading.
pub mod Unfolded
pub mod Counted
pub mod Theorems
