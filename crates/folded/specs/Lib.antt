-- What a reader of `folded` must believe, in the order of reading.
pub mod Folded
pub mod Planned
pub mod Theorems
